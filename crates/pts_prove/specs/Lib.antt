pub mod Answered
pub mod Works
pub mod Refining
pub mod Applications
