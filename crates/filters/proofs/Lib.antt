mod Strips
mod Places
mod Marking
mod Taking
