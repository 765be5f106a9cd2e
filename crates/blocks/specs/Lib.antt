pub mod Blocks
pub mod Index
pub mod Lent
pub mod Records
pub mod Totals
