pub mod Facts
pub mod Entries
pub mod Laws
