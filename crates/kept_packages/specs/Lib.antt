pub mod Kept
pub mod Answers
pub mod Needs
pub mod Steps
