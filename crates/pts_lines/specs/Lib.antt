pub mod Words
pub mod Items
pub mod Lines
pub mod Seen
pub mod Forms
pub mod Refusals
pub mod Reading
