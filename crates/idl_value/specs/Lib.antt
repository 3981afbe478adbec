pub mod CaseValues
pub mod code
