pub mod Groups
pub mod Phrases
