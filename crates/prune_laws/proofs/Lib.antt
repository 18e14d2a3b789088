pub mod Owners
pub mod Defs
pub mod Needs
mod Homes
pub mod Staying
pub mod Ignoring
pub mod Inputs
pub mod Leading
pub mod Graphs
pub mod Running
pub mod Parts
pub mod Reading
mod Law
mod Whole
mod Outcomes
