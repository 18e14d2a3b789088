pub mod Going
pub mod Parting
pub mod Cutting
pub mod Searching
pub mod Comparing
pub mod Shortness
pub mod Seen
pub mod Finding
