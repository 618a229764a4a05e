-- Lemmas on sheets.
pub mod Indexes
pub mod Left
pub mod Listing
pub mod Reading
pub mod Walks
pub mod Small
pub mod Counts
pub mod Nexts
pub mod Orders
pub mod Openings
pub mod Writing
pub mod Places
pub mod ReadingBack
