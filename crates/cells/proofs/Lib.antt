-- Lemmas on cells and lines.
pub mod Fronts
pub mod Meanings
pub mod Small
pub mod Taking
pub mod Took
