pub mod Neighbours
pub mod Sorting
pub mod Stepping
