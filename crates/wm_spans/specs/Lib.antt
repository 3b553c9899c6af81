pub mod Spanned
pub mod Exact
pub mod Over
