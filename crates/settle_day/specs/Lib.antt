-- What ends the work. Assumes nothing.
pub mod Stops
