pub mod Taken
pub mod code
