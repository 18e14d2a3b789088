pub mod Stores
pub mod Refused
pub mod Facts
