pub mod Lists
pub mod Firsts
pub mod Flagged
pub mod CarriedSound
pub mod Placed
pub mod Worked
pub mod Assembled
