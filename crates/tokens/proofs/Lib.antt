pub mod Runs
pub mod Lexing
