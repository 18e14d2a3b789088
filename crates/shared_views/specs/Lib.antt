pub mod Machine
pub mod Histories
pub mod Interleavings
pub mod Laws
pub mod TwoRuns
