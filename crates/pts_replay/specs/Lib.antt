pub mod Endings
pub mod Lines
pub mod Replies
pub mod Games
