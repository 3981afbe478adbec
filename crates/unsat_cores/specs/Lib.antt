pub mod Cited
pub mod Cores
pub mod Laws
pub mod code
