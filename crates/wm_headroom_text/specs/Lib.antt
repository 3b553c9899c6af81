pub mod Open
pub mod Text
pub mod Opened
