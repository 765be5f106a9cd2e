pub mod Arrangements
pub mod Kernel
pub mod Determinacy
