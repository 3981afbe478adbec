-- Words of the code alone, which contracts of the code's own calls cite: no part of the meaning.
pub mod Tables
pub mod Walks
pub mod Additions
pub mod WrittenOut
pub mod Citing
