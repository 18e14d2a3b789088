pub mod Answers
pub mod Moments
pub mod Stops
pub mod Facts
