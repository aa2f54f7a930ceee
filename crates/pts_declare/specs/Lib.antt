pub mod Stated
pub mod Checking
pub mod Refusals
pub mod Laws
