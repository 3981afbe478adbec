pub mod Proved
pub use Rattle.stn_core.specs.Limits
pub use Rattle.stn_core.specs.Literal
pub use Rattle.stn_core.specs.Problem
pub use Rattle.refute_tree.specs.Trees
pub mod code
