-- What the contracts of parting cite. Assumes nothing.
pub mod Places
pub mod Rule
pub mod LargestRemainder
pub mod Running
pub mod Examples
pub mod LargestLaw
pub mod Adding
pub mod Ranking
pub mod RunningLaw
pub mod Steps
