pub mod Listed
pub mod Finished
pub mod Failures
pub mod Settling
pub mod Reasons
