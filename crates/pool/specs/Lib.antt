pub mod Refusals
pub mod Rules
pub mod Standing
pub mod Tables
pub mod Sound
pub mod Calls
