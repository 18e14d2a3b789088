mod Once
mod Refused
mod Stopping
