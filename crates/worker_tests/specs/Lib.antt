pub mod Placed
pub mod Meeting
