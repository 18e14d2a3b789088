mod Lists
pub mod Selecting
mod Entering
mod Using
mod Reaching
mod Taking
mod Collecting
mod Planning
mod Whole
