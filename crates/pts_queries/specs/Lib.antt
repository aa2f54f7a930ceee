pub mod Budgets
pub mod Replies
pub mod Reading
pub mod Queries
pub mod Hypotheses
pub mod Inner
pub mod Laws
