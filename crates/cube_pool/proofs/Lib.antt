pub mod Histories
pub mod Lanes
pub mod Lists
pub mod Parts
pub mod Orders
pub mod Endings
