pub mod Added
mod Behind
mod Prefixes
