pub mod Repeated
pub mod Rounds
pub mod Recursion
pub mod Sizes
