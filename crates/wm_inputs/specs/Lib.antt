pub mod Chooser
pub mod Definitions
pub mod Entries
pub mod Ranges
pub mod Called
