pub mod Joined
pub mod Cuts
