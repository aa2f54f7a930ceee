pub mod Marks
pub mod Calls
pub mod Commas
pub mod Clashes
pub mod Ahead
