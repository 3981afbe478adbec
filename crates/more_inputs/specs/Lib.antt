pub mod Laws
pub use Rattle.refute_tree.specs.Trees
pub use Rattle.refute_tree.specs.Batches
