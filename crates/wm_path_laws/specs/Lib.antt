pub mod Bound
pub mod Choices
pub mod Paths
pub mod Worst
