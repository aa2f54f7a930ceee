pub mod Documents
pub mod Least
