pub mod Adding
pub mod Flagging
pub mod Applying
pub mod Deciding
pub mod Raising
