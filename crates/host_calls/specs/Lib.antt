-- What the host's calls are given and write. Assumes nothing.
pub mod Called
pub mod Filled
