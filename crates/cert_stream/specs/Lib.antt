pub use Rattle.smt_sexpr.specs.Tree
pub use Rattle.smt_sexpr.specs.Printing
pub use Rattle.smt_sexpr.specs.Shapes
pub use Rattle.cert_text.specs.Form
pub use Rattle.dtp_entry.specs.Written
pub mod code
