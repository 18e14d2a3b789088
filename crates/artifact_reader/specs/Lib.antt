pub mod Parts
pub mod Cursors
pub mod Reads
pub mod Artifacts
