pub mod Calls
pub mod Collecting
pub mod Folds
pub mod Forms
pub mod Naming
pub mod Ranges
pub mod Reading
pub mod Settling
