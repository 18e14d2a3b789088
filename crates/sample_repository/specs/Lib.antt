pub mod Repository
pub mod Changes
pub mod Worlds
