pub mod Declarations
pub mod Lengths
pub mod Simples
pub mod Statements
pub mod Works
