pub mod Lines
pub mod Vcd
pub mod Reader
pub mod ReadBack
pub mod Writing
