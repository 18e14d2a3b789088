mod Characters
mod Names
mod Tokens
mod Reading
mod Matching
mod Lists
