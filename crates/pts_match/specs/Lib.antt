pub mod Lowering
pub mod Matching
pub mod Laws
