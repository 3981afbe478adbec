pub mod Carrying
pub mod Reading
pub mod Standing
pub mod Turns
pub mod Visiting
