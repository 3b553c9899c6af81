mod Chains
pub mod Joins
mod Worked
