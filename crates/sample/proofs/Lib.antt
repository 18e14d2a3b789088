pub mod Words
mod Over
