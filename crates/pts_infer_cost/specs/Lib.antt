pub mod Typing
pub mod Inference
pub mod Laws
