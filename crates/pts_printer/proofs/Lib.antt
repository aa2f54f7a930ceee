pub mod Beyond
pub mod Marking
pub mod Names
pub mod Joined
pub mod InOrder
pub mod Clashing
