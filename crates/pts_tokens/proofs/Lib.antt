pub mod Runs
pub mod Cuts
pub mod Words
pub mod Named
pub mod Worded
pub mod Begun
pub mod Stepping
