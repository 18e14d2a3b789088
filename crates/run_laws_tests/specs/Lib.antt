pub mod Books
pub mod Walks
