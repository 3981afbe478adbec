pub mod Commands
pub mod Sums
pub mod Writable
pub mod Asking
pub mod Decided
pub mod Counted
