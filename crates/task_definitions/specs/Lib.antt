pub mod Setup
pub mod Laws
pub mod Sets
