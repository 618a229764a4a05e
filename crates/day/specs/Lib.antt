-- What the contracts of day cite. Assumes nothing.
pub mod Members
pub mod Dues
pub mod Records
pub mod Laws
pub mod Alike
