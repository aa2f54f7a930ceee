pub mod Counts
pub mod States
pub mod Calls
pub mod Fakes
pub mod Files
pub mod Lines
pub mod Ends
