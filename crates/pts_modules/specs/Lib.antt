pub mod Shelves
pub mod Orders
pub mod Stacks
pub mod Laws
