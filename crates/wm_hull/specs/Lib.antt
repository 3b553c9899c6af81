pub mod Boxes
pub mod Failures
pub mod Ranges
pub mod Searches
