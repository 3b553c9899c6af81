pub mod Gathered
pub mod InputsBounded
