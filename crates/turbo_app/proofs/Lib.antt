mod Alone
mod Causing
mod Chain
mod Compacting
mod Truth
