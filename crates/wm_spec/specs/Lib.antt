pub mod Inputs
pub mod Kinds
pub mod Lists
pub mod Read
pub mod Seen
pub mod Values
