pub mod Folded
mod Numbered
pub mod Seen
pub mod Origins
mod Examples
pub mod Going
pub mod Coming
