pub mod Sought
pub mod RowsMade
pub mod Rounds
pub mod Held
