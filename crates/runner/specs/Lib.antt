pub mod Running
pub mod Answers
pub mod Due
pub mod Halting
pub mod Costs
pub mod Ends
