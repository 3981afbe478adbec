-- Words of the code alone, which contracts of the code's own calls cite: no part of the meaning.
pub mod ShownItems
pub mod Waiting
pub mod Forms
pub mod Keeping
pub mod Decisions
pub mod Sessions
pub mod Leading
pub mod Answering
pub mod Asking
