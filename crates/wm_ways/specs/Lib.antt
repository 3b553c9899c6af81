pub mod Loops
pub mod Numbers
pub mod Paths
pub mod Sweeps
pub mod Whole
