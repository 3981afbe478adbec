pub mod FirstLine
pub mod Writing
