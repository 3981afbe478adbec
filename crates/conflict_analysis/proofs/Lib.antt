pub mod Chosen
pub mod Shut
pub mod Written
pub mod Passing
pub mod Marks
pub mod Denied
pub mod Analyzed
