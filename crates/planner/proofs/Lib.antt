mod Ending
mod Following
mod Entered
mod Wanting
mod Handing
mod Valid
mod Whole
