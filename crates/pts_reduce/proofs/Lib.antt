pub mod Paid
pub mod Stepping
pub mod Faults
pub mod Converting
pub mod Walks
