pub mod RunLines
pub mod States
pub mod Runs
pub mod Stages
pub mod Lines
