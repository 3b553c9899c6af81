pub mod Demo
pub mod Observed
pub mod Places
pub mod Report
pub mod Sites
