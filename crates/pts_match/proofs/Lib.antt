pub mod Lowered
pub mod Lifted
pub mod Assigned
pub mod Started
pub mod Solutions
