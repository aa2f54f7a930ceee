pub mod Events
pub mod Served
pub mod Workers
