pub mod Shapes
pub mod SpecFile
pub mod Calls
pub mod FaultText
