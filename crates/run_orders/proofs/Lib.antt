mod Only
mod Left
mod Found
pub mod Causes
mod Alone
mod Using
