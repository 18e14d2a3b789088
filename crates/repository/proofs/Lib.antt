mod Homes
mod Files
mod Whole
