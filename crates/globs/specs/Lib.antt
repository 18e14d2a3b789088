pub mod Match
pub mod Lists
pub mod Entries
pub mod Outputs
pub mod OutLaws
pub mod OwnedFiles
