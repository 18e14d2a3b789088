mod Paths
mod Text
mod Only
mod Steps
pub mod Firsts
pub mod SoFar
pub mod Lacking
pub mod Rooms
pub mod NonePut
