pub mod Bests
pub mod OneTranscript
pub mod Pieces
pub mod Roots
pub mod Verdicts
pub mod Written
