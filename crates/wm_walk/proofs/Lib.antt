pub mod Into
pub mod Made
pub mod Pairs
pub mod Shaped
