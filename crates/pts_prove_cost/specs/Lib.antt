pub mod Combining
pub mod Refinement
pub mod Commands
pub mod Laws
