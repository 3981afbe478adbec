pub mod FactLists
pub mod Usable
pub mod Sound
pub mod Owned
pub mod Going
