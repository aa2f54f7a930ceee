pub mod Inferred
pub mod Once
