mod Behind
mod Relaying
pub mod Handing
pub mod Reading
pub mod Currents
pub mod Only
pub mod Stopping
pub mod Pairs
mod Truth
