pub mod Bounds
pub mod Changes
pub mod Forms
pub mod Places
pub mod Points
pub mod States
pub mod Terms
