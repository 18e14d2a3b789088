pub mod Least
pub mod NoFloats
mod FloatSteps
pub mod Ascending
mod Entering
pub mod Wrongs
mod Pointless
