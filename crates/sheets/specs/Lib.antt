-- What a sheet says, and what its states stand for. Assumes nothing.
pub mod Columns
pub mod Listed
pub mod Names
pub mod Rows
pub mod Sheets
pub mod Small
pub mod States
pub mod Values
pub mod Written
