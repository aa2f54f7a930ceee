pub mod Turned
pub mod Joining
pub mod Rounds
pub mod Crossing
