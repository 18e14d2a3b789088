pub mod Patterns
pub mod Lists
pub mod Choice
pub mod Index
pub mod Reach
