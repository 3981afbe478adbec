pub mod Shared
pub mod Carried
pub mod Examples
pub mod Laws
pub mod code
