pub mod Replacing
pub mod Raising
pub mod Keeping
