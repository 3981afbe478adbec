pub mod Evaluating
pub mod Looking
