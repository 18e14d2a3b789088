mod Reading
mod Halting
mod Leaving
mod Telling
