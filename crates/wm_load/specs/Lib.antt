pub mod Specification
pub mod Linking
pub mod Loaded
pub mod Loading
pub mod Replay
pub mod Replaying
pub mod Check
pub mod Checking
