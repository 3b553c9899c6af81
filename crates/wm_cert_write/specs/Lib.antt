pub mod Heads
pub mod Printed
