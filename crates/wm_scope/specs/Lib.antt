pub mod Faults
pub mod Indexed
pub mod Names
pub mod Pairs
pub mod Places
pub mod Scopes
