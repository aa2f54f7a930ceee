pub mod Statements
pub mod Declaring
pub mod Refusals
pub mod FileScope
pub mod Words
pub mod Laws
