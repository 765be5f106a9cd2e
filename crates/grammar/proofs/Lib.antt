pub mod Unique
pub mod MadeLaws
