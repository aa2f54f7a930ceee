pub mod Stated
pub mod Verdicts
pub mod Entered
