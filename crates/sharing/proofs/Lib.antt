-- Lemmas of sharing. Assumes nothing.
pub mod Mapping
pub mod Summing
pub mod Lining
pub mod FairDay
