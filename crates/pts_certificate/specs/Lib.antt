pub mod Text
pub mod Rows
pub mod Certificate
pub mod Calls
pub mod Seen
pub mod FaultText
