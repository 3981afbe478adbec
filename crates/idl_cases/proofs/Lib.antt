pub mod Gathering
pub mod CaseLaws
pub mod CaseBounds
pub mod Opening
pub mod GuardsBounded
pub mod CasesLeft
pub mod SumSteps
pub mod Going
