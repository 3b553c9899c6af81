pub mod Counters
pub mod Found
pub mod Outcomes
