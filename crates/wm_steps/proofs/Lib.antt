pub mod IndexTests
pub mod NamesRead
pub mod Operates
pub mod ValuesWait
