pub mod Accepted
pub mod Members
pub mod Totals
pub mod Sounds
pub mod Settling
