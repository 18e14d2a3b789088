mod Marks
mod Numbers
mod Walk
mod Limits
