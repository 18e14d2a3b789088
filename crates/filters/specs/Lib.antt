pub mod Words
pub mod Names
pub mod Selection
pub mod Steps
pub mod Sides
