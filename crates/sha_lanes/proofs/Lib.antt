pub mod Found
pub mod Four
pub mod Moves
pub mod Padding
pub mod Rows
pub mod Texts
pub mod Vectors
