pub mod Declarators
pub mod Items
pub mod Names
pub mod Parameters
pub mod Statements
