mod Walking
mod FileWalks
