pub mod Entries
pub mod Runs
pub mod Counts
pub mod Days
pub mod Laws
pub mod Worked
