pub mod Arrays
pub mod Turns
pub mod View
