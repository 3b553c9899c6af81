pub mod Between
pub mod Calls
pub mod Exactly
pub mod Extending
pub mod Following
pub mod Making
pub mod Reach
