pub mod Run
pub mod Dumps
