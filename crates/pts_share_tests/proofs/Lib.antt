pub mod Places
pub mod Threads
pub mod Written
pub mod Sending
pub mod Ports
