pub mod Giving
pub mod Allowing
