pub mod Carry
pub mod Search
pub mod Given
pub mod Looking
pub mod Shown
pub mod After
pub mod Both
pub mod Opening
