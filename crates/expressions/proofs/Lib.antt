pub mod Logical
pub mod Pairs
pub mod Recursion
pub mod Runs
pub mod Slots
pub mod Statements
