pub mod Growing
pub mod Replying
pub mod Reaching
pub mod Once
