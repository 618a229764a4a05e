-- What the numbers of a sheet of readings add up to. Assumes nothing.
pub mod Totals
