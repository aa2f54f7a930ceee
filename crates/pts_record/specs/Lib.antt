pub mod Table
pub mod Said
pub mod Kept
pub mod Renaming
