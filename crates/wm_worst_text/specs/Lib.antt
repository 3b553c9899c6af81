pub mod Times
pub mod Text
