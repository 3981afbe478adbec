pub mod Counting
pub use Rattle.dtp_entry.specs.Entries
pub use Rattle.script_walk.specs.Course
pub use Rattle.script_walk.specs.code.Standing
pub use Rattle.smt_sexpr.specs.Commands
pub use Rattle.smt_script.specs.States
pub mod code
