pub mod Widths
pub mod Sets
pub mod Gaps
pub mod Choosing
pub mod Descending
