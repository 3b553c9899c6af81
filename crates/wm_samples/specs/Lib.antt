pub mod Cells
pub mod Form
pub mod Numbers
pub mod Samples
pub mod Seen
