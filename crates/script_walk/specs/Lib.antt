pub mod Questions
pub mod Course
pub use Rattle.smt_sexpr.specs.Commands
pub use Rattle.smt_sexpr.specs.Reading
pub use Rattle.smt_sexpr.specs.Table
pub use Rattle.smt_script.specs.States
pub use Rattle.smt_answer.specs.Kinds
pub mod code
