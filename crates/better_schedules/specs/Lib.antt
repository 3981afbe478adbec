pub mod Near
pub mod Laws
pub use Rattle.best_values.specs.Bests
pub use Rattle.best_values.specs.Widths
pub use Rattle.best_values.specs.Questions
pub mod code
