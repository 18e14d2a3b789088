mod Further
mod Losing
mod Holding
pub mod Ready
pub mod Finished
pub mod Stopped
pub mod Causes
