pub mod Pigeonhole
pub mod Walks
pub mod Search
pub mod Asked
pub mod Bound
