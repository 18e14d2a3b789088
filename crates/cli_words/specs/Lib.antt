pub mod Cuts
pub mod Options
pub mod Values
pub mod Grammar
pub mod Orders
pub mod Answers
pub mod Seen
pub mod Laws
