pub mod Marks
pub mod Parts
pub mod Signs
pub mod Lines
pub mod Rules
pub mod Says
pub mod Folders
pub mod Ignored
