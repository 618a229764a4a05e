-- Lemmas on the numbers that are written.
pub mod Filling
pub mod Putting
