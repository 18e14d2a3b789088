pub mod Tables
pub mod Boards
pub mod Ahead
pub mod Progress
pub mod Causes
