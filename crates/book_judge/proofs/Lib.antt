pub mod Judged
pub mod Takes
