pub mod Limits
pub mod Guarded
pub use Rattle.idl_linear.specs.Linear
pub mod code
