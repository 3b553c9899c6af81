pub mod Answered
pub mod Firsts
pub mod Ordering
pub mod Outside
pub mod Passing
pub mod Walking
pub mod Whole
