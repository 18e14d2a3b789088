mod Descent
mod Lookup
mod Ranks
mod Sets
