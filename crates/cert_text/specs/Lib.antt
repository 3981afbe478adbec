pub mod Form
pub mod Limits
pub mod Laws
pub use Rattle.smt_sexpr.specs.Tree
pub use Rattle.smt_sexpr.specs.Reading
pub use Rattle.smt_sexpr.specs.Printing
