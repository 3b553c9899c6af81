pub mod Operands
pub mod Ranges
pub mod Sights
pub mod Sums
