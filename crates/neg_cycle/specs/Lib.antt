pub mod Rotated
pub mod Simple
pub use Rattle.stn_core.specs.Cycle
