pub mod FileLists
pub mod NamesOf
