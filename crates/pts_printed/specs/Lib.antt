pub mod Choice
pub mod Spelled
pub mod Text
pub mod Locals
pub mod Laws
