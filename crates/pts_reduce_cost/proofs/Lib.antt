pub mod Steps
pub mod Tests
pub mod Reached
pub mod Exact
pub mod Converts
pub mod Worked
