mod Hashes
mod Prefixes
mod Listed
mod Places
