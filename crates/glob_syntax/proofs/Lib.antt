pub mod Marks
pub mod Tokens
pub mod Components
pub mod Pieces
pub mod Outlook
pub mod Width
pub mod Matching
