pub mod Constants
pub mod Instances
pub mod Totals
