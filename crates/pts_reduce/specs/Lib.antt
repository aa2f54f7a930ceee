pub mod Given
pub mod Chain
pub mod Pairs
pub mod Answered
