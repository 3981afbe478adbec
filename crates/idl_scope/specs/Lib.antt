pub mod Limits
pub mod Scopes
pub use Rattle.idl_linear.specs.Linear
pub use Rattle.idl_cases.specs.Guarded
pub mod code
