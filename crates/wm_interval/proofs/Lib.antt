pub mod Hulls
