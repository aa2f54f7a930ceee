pub mod Resolution
pub mod Reading
pub mod Calls
pub mod FaultText
