pub mod Answers
pub mod Faults
pub mod Linked
pub mod Plans
