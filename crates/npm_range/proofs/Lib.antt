mod Cuts
mod Numbers
mod Operators
mod Tags
mod Sets
mod Splits
mod Joined
