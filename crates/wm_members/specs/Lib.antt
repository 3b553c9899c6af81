pub mod Expressions
pub mod Faults
pub mod Making
pub mod Members
pub mod Naming
pub mod States
pub mod Tables
