pub mod Ahead
pub mod Feeds
pub mod Known
pub mod Took
pub mod Turns
