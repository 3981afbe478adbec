-- Words of the code alone, which contracts of the code's own calls cite: no part of the meaning.
pub mod Staff
pub mod Beside
