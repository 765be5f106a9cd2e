pub mod Numerals
pub mod Puts
