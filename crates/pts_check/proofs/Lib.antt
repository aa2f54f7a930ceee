pub mod Passed
pub mod Found
pub mod Stepped
pub mod Faulted
pub mod Limited
pub mod Concluded
pub mod Entering
