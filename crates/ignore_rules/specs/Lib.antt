pub mod Marks
pub mod Lines
pub mod Signs
pub mod Parts
pub mod Rules
pub mod Ignored
pub mod Stacks
pub mod Entries
