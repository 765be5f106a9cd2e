pub mod Writing
pub mod Clauses
pub mod Lists
