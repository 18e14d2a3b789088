pub mod Spells
pub mod Bytes
