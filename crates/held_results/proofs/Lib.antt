pub mod After
pub mod LookedUp
