pub mod ConditionsDrawn
pub mod Evaluated
