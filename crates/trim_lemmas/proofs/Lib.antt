pub mod Picked
pub mod Counted
pub mod Marked
pub mod Shorter
