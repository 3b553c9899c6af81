pub mod Tables
pub mod Declared
