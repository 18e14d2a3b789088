pub mod Folders
pub mod Answers
pub mod Printed
pub mod Cause
pub mod Steps
