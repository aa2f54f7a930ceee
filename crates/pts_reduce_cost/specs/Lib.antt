pub mod Costs
pub mod Run
pub mod Work
pub mod Laws
