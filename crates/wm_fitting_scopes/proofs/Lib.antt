pub mod Meanings
pub mod Scopes
