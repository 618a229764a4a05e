pub mod Kinds
pub mod Facts
pub mod Refusals
pub mod Numbers
pub mod Rows
