pub mod Carrying
pub mod Changing
pub mod Exact
pub mod Extending
pub mod Pairing
pub mod Passing
pub mod Ranks
pub mod Reaching
