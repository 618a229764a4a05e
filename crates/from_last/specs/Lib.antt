-- What the contracts of from_last cite. Assumes nothing.
pub mod FromLast
pub mod FromLastLaw
