pub mod Matching
pub mod Sums
