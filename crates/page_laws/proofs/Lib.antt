pub mod Notes
pub mod Together
