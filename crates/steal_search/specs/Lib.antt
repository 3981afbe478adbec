pub mod Workers
pub mod code
