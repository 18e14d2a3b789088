pub mod ChangeLaws
pub mod Names
pub mod Steps
