pub mod Nine
pub mod Resolve
pub mod Operators
pub mod Bench
