pub mod Bools
mod Sets
pub mod Numbers
mod Paired
mod Picking
mod Lasts
mod Members
mod Stays
mod Cutting
