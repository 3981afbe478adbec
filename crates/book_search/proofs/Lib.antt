pub mod Bases
pub mod Holding
pub mod Deciding
pub mod Delivered
pub mod Waiting
pub mod Learned
