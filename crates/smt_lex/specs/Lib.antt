pub mod Bytes
pub mod Grammar
pub mod Symbols
pub mod Numbers
pub mod Laws
pub mod code
