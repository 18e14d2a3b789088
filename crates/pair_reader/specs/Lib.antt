pub mod Frames
pub mod Standing
pub mod Sources
pub mod Answers
pub mod Parts
