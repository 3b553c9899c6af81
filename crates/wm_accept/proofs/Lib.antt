pub mod Ending
pub mod Going
pub mod Holding
pub mod Living
pub mod Trying
