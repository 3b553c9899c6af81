pub mod Automatic
pub mod Declaring
pub mod Making
pub mod Parts
pub mod Static
pub mod Stepping
