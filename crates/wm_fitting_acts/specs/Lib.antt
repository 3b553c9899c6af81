pub mod Laws
pub mod PlainActs
