pub mod Flat
pub mod Pile
