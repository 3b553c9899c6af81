pub mod Noting
pub mod Reaching
