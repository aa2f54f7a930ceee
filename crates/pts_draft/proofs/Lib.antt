pub mod Declaring
pub mod Following
pub mod Freeness
pub mod Keeping
pub mod Refusing
pub mod NewNames
