mod Lookups
mod Chain
mod Keys
mod Reading
