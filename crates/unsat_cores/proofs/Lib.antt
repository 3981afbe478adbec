pub mod Marks
pub mod Swept
pub mod NeededLemmas
pub mod CitedSound
pub mod LengthenedSame
pub mod Cored
pub mod Rooted
