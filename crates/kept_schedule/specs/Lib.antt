pub mod Satisfying
