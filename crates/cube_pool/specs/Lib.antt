pub mod Lanes
pub mod Hands
pub mod code
