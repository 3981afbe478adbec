pub mod Trimming
pub use Rattle.refute_tree.specs.Trees
pub use Rattle.refute_tree.specs.code.Views
pub use Rattle.refute_tree.specs.Batches
pub mod code
