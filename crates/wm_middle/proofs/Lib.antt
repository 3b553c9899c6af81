pub mod Shaping
