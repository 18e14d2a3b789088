pub mod Limits
pub mod Table
pub mod Grammar
pub mod Refusal
pub mod Reading
