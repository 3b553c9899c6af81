pub mod Fields
pub mod Picks
pub mod Bodies
pub mod Worst
