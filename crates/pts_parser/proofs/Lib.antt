pub mod Places
pub mod Unknown
pub mod Texts
