pub mod Image
pub mod Appending
pub mod Interpretation
pub mod Renaming
pub mod Substitution
pub mod Graft
pub mod Following
