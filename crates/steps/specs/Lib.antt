pub mod Delta
pub mod Entries
pub mod Shift
