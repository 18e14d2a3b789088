mod Targets
mod Copied
mod Turns
mod Planned
mod Written
mod Printing
