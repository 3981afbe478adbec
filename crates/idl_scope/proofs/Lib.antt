pub mod NamesKept
pub mod NamesFound
pub mod LocalsKept
pub mod ShortKeys
