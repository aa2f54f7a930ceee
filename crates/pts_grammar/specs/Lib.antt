pub mod Syntax
pub mod Grammar
pub mod Machine
pub mod Seen
pub mod Open
pub mod Refusals
pub mod FaultText
