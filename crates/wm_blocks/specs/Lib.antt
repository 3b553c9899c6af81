pub mod Statements
pub mod Holds
