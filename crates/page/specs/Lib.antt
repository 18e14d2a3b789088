pub mod Answers
pub mod Tasks
pub mod Blocks
pub mod Summaries
pub mod DryBlocks
