pub mod Feeds
pub mod Progress
pub mod Steps
pub mod Endings
pub mod Once
pub mod Closed
