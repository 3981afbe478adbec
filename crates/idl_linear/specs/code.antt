-- Words of the code alone, which contracts of the code's own calls cite: no part of the meaning.
pub mod Bounded
pub mod Branching
pub mod Few
pub mod FirstRuns
pub mod Held
pub mod Steps
pub mod TreeParts
pub mod Trees
