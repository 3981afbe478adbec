pub mod Operators
pub mod Choices
pub mod Comparing
pub mod Applied
pub mod code
