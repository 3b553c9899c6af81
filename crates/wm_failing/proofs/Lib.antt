pub mod Outside
pub mod Quotients
pub mod Same
