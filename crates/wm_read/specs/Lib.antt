pub mod Asking
pub mod Seen
pub mod Files
pub mod Given
pub mod Certificate
