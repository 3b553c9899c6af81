pub mod Ending
pub mod Finals
pub mod Functions
pub mod Likeness
pub mod Parameters
