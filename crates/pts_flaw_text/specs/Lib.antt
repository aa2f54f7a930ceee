pub mod FlawText
pub mod InferText
