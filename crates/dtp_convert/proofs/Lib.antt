pub mod Accepting
pub mod Deciding
pub mod Examining
pub mod WritingLines
pub mod Writing
