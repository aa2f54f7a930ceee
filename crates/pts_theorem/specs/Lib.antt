pub mod Theorems
pub mod Seen
pub mod Laws
