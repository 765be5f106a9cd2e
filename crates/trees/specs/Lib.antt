pub mod Trees
pub mod Types
