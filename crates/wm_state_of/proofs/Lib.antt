pub mod Cutting
pub mod Setting
pub mod Summaries
