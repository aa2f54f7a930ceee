pub mod Text
pub mod Lines
pub mod File
pub mod FaultText
