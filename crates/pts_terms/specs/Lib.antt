pub mod Tree
pub mod Replaced
pub mod Limits
pub mod Seen
pub mod Code
pub mod Exact
