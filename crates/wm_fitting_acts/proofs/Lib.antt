pub mod Dropping
pub mod Acting
pub mod Targets
