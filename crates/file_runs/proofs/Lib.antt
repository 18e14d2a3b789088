mod Standing
mod Leaving
mod Ending
mod Outcomes
