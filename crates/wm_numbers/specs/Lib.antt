pub mod Clamp
pub mod Extremes
pub mod Floor
pub mod Nearest
pub mod Within
