mod Names
mod Lone
pub mod Homes
mod Places
mod ReadTasks
mod Rows
mod WideLists
mod Kept
