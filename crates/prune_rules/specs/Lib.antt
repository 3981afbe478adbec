pub mod Fates
pub use Rattle.stn_core.specs.Literal
pub use Rattle.stn_core.specs.Schedule
pub use Rattle.stn_core.specs.Answer
pub use Rattle.stn_core.specs.Net
