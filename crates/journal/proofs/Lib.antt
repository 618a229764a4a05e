pub mod Lending
pub mod Agreeing
pub mod Tables
pub mod Keeping
pub mod Days
pub mod Turning
