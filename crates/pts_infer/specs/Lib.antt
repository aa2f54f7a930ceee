pub mod Given
pub mod Answered
pub mod FaultText
pub mod Works
