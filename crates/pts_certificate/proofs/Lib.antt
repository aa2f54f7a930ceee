pub mod Numbers
pub mod Few
pub mod Reading
pub mod Known
mod TwoSorts
