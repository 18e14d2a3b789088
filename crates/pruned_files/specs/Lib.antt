pub mod Cut
pub mod Lacks
pub mod Pruned
pub mod Layers
pub mod Folders
pub mod Calls
