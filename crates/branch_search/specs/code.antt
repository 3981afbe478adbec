-- Words of the code alone, which contracts of the code's own calls cite: no part of the meaning.
pub mod Search
pub mod Hits
pub mod Turns
pub mod Divisions
pub mod Deliveries
pub mod Clauses
pub mod Roots
