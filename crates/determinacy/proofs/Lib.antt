pub mod Arranged
pub mod Run
