pub mod Limits
pub mod Linear
pub mod Forms
pub mod Differences
pub mod Values
pub mod Examples
pub mod Laws
pub mod code
