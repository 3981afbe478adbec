pub mod Kinds
pub mod Texts
pub use Rattle.smt_sexpr.specs.Tree
pub use Rattle.smt_sexpr.specs.Table
pub use Rattle.idl_node.specs.Nodes
pub use Rattle.idl_scope.specs.Scopes
pub mod code
