pub mod Refusals
pub mod Wanted
pub mod Settings
pub mod Plans
pub mod Steps
pub mod Answers
