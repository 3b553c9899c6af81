pub mod Proofs
pub mod Refusals
pub mod Worst
