pub mod Searches
pub mod Kept
pub use Rattle.book_core.specs.Verdicts
pub mod code
