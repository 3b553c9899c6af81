pub mod Supplying
