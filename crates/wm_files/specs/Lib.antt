pub mod Memory
pub mod Outside
pub mod Pairs
pub mod Plan
pub mod Whole
