pub mod Room
pub mod Short
pub mod Follow
pub mod Steps
pub mod Answering
pub mod Once
