mod ReadingLaws
mod Keys
pub mod Members
pub mod Pointers
mod Adding
mod Scanning
mod Places
