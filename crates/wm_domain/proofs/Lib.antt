pub mod Moving
pub mod Nears
pub mod Pairs
pub mod Placing
pub mod Sums
