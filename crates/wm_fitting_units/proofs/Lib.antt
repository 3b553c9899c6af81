pub mod Agreeing
pub mod FileObjects
pub mod Finals
pub mod Lists
pub mod Meanings
pub mod Outlining
pub mod Passing
pub mod Units
