pub mod Loading
pub mod Batches
pub mod Evidence
pub mod Calls
pub mod Shown
pub mod Laws
