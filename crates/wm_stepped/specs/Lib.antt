pub mod Allowing
pub mod Stepping
