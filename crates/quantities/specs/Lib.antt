pub mod Limits
pub mod Money
