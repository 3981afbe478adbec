-- Words of the code alone, which contracts of the code's own calls cite: no part of the meaning.
pub mod Asked
pub mod Behind
pub mod Earlier
pub mod Parts
pub mod Roots
pub mod Turns
pub mod Made
pub mod Judging
