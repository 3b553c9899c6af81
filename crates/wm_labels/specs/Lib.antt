pub mod Labels
pub mod Accepted
pub mod Live
