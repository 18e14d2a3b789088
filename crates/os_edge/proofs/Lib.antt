pub mod CommandLists
pub mod Reading
