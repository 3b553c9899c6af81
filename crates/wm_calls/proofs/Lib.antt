pub mod Repeating
pub mod Endings
