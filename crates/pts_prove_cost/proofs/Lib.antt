pub mod OneOutcome
pub mod OnBudget
