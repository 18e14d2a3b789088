pub mod Digests
pub mod Index
pub mod Fields
pub mod Inside
