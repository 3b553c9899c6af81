pub mod Expressions
pub mod Flow
pub mod Memory
pub mod Names
pub mod Operations
pub mod Runs
pub mod Statements
