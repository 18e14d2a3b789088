mod Owns
mod Puts
mod Readings
mod Takings
mod Ascents
mod HitFacts
mod Sought
mod Leavings
