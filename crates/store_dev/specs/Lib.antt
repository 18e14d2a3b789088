pub mod Device
pub mod Errors
pub mod Moments
pub mod Clocks
pub mod Record
pub mod Memory
pub mod MemStore
pub mod FuseStore
