pub mod Sizes
pub mod Remainders
pub mod Machine
