-- The three sheets of a folder. Assumes nothing.
pub mod Tested
