pub mod Loans
pub mod Marks
pub mod Resting
pub mod Asking
pub mod SentContexts
pub mod Sending
