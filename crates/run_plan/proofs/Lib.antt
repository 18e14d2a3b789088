mod Spelling
pub mod CommandFacts
mod Grounds
pub mod Steps
pub mod Standing
mod Arms
pub mod Taking
pub mod Ending
pub mod Closing
mod LateEnds
mod Firsts
mod Stopping
mod Whole
pub mod ReportFacts
