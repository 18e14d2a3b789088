pub mod Look
pub mod Answer
pub mod Pointer
pub mod Reading
pub mod Shape
pub mod Plain
pub mod Waiting
pub mod Pairs
