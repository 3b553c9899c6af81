pub mod Choosing
pub mod Entries
pub mod Offsets
pub mod Programs
