pub mod Pairs
pub mod Turns
pub mod Moving
pub mod Ends
pub mod Gathering
