pub mod Told
pub mod Ints
pub mod Laws
