pub mod Order
mod Names
pub mod Lists
mod Trims
mod Loops
mod Globs
pub mod Marking
pub mod Turning
mod ReadIn
mod Below
mod Sorting
mod FolderOf
mod EdgeLists
mod NeedLists
mod MemberRows
mod Discovering
pub mod Apart
pub mod Owners
mod Walked
