pub mod Steps
pub mod OpenGoals
pub mod Parts
pub mod OpenProofs
pub mod FillingOut
pub mod Laws
