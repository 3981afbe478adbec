pub mod Draws
pub mod Plans
pub mod Scripts
pub mod code
