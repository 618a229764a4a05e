-- What cells and lines are. Assumes nothing.
pub mod Numbers
pub mod Cells
pub mod Scans
pub mod Shown
pub mod Places
pub mod Left
