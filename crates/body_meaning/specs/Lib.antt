pub mod Values
pub mod Statements
pub mod Picks
pub mod Meaning
