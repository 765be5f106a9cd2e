pub mod Match
pub mod Lies
