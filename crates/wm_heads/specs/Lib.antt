pub mod Bodies
pub mod Tally
pub mod Laws
