pub mod Names
pub mod Values
pub mod Plain
pub mod Decides
pub mod Indexed
pub mod Once
