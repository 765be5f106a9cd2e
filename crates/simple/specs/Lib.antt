pub mod Statements
pub mod Waits
