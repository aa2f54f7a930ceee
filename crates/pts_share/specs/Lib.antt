pub mod Marks
pub mod Passes
pub mod Sharing
pub mod Loans
