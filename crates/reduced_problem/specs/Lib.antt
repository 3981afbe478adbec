pub mod Reduced
pub mod code
