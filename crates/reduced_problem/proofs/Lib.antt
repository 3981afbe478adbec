pub mod Steps
pub mod Restated
