-- Words of the code alone, which contracts of the code's own calls cite: no part of the meaning.
pub mod Bounded
pub mod CaseShapes
pub mod CasePlaces
pub mod CaseSums
pub mod CaseTrees
pub mod CasesLeft
pub mod GuardBounds
