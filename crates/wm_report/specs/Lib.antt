pub mod Fault
pub mod Gap
pub mod Replay
pub mod Words
