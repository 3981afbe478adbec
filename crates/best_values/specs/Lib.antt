pub mod Widths
pub mod Bests
pub mod FreeSets
pub mod Questions
pub mod Laws
pub mod Examples
