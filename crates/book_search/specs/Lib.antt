pub use Rattle.book_core.specs.Books
pub use Rattle.book_core.specs.Runs
pub use Rattle.book_core.specs.Verdicts
pub mod Learned
pub mod code
