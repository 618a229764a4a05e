-- What the contracts of sharing cite. Assumes nothing.
pub mod Sides
pub mod Shares
pub mod Laws
pub mod Worked
