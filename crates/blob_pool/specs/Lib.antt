pub mod Contents
pub mod Pool
pub mod Known
pub mod Answers
pub mod Blobs
pub mod First
pub mod Laws
