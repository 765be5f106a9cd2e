pub mod Facts
pub mod Index
pub mod Nulls
pub mod Owners
pub mod Rules
