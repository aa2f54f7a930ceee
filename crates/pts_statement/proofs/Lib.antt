pub mod Stating
pub mod Once
