pub mod Converted
pub mod Turns
pub mod Laws
pub use Rattle.smt_sexpr.specs.Tree
pub use Rattle.smt_sexpr.specs.Table
pub use Rattle.smt_script.specs.States
pub mod code
