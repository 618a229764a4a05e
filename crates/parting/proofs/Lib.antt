-- Lemmas of parting. Assumes nothing.
pub mod Bounds
pub mod HandingOut
pub mod Writing
