pub mod Lengths
pub mod Keys
pub mod Index
pub mod Batch
pub mod Seen
pub mod Costs
