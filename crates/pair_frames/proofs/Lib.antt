pub mod Texts
pub mod Contents
pub mod Cutting
pub mod Sizes
pub mod Putting
pub mod Several
