pub mod Answers
pub use Rattle.best_values.specs.Bests
pub use Rattle.best_values.specs.Widths
pub mod code
