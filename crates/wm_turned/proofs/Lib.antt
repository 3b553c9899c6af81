pub mod Growing
pub mod Leasts
pub mod Undoing
