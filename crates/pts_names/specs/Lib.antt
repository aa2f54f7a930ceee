pub mod Name
pub mod Dotted
pub mod Lists
