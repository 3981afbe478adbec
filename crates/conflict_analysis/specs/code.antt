-- Words of the code alone, which contracts of the code's own calls cite: no part of the meaning.
pub mod Graphs
pub mod Trails
pub mod Leaves
pub mod Spines
pub mod Denials
pub mod Places
