pub mod Cutting
pub mod Meeting
pub mod Cells
pub mod Closing
pub mod Implied
