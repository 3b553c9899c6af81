pub mod Kinds
pub mod Needs
pub mod Values
pub mod Widths
