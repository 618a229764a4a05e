-- Lemmas of day. Assumes nothing.
pub mod Passing
pub mod Filling
pub mod DayFacts
pub mod Accepted
pub mod SettledDay
pub mod AlikeDays
