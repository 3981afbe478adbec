pub mod Numerals
pub mod KeptFronts
pub mod Writable
pub mod OneEntry
pub mod EachLiteral
pub mod EntryKinds
