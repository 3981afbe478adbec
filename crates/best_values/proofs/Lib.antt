pub mod Widths
pub mod Sets
pub mod Lowering
pub mod Keeping
pub mod Asked
pub mod Worked
