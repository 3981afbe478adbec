pub mod Going
pub mod Staffing
pub mod Pauses
pub mod Telling
