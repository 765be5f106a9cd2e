pub mod Lent
pub mod Reading
