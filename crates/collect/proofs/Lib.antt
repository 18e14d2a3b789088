pub mod Lists
mod Texts
mod Paths
mod Readings
mod Installed
mod Spots
mod Jobs
mod Asked
mod IgnoreRules
mod Whole
mod Found
mod Order
mod Ascending
mod Owners
mod Apart
