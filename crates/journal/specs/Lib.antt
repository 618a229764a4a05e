pub mod Deeds
pub mod Words
pub mod Answers
pub mod Law
pub mod Steps
