-- The kinds of sheets and the faults. Assumes nothing.
pub mod Faults
pub mod Tables
