pub mod Declarations
pub mod Structures
