-- Lemmas on the sum of rows.
pub mod Adding
