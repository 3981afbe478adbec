pub mod Linking
pub mod Undoing
pub mod Lowers
pub mod Scans
pub mod Backs
pub mod Extends
pub mod Networks
pub mod Queues
