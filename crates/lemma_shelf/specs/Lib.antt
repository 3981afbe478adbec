pub mod Clauses
pub mod Examples
pub mod InPlace
pub mod ItemFlaws
pub mod Laws
pub mod Lowering
pub mod code
