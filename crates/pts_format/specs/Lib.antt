pub mod Words
pub mod Lines
pub mod Calls
pub mod Ends
pub mod Laws
