pub mod Opened
pub mod Staying
pub mod Made
pub mod Agreeing
