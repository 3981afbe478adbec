pub mod Statuses
pub mod Outcomes
pub mod Laws
