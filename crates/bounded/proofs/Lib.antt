pub mod Waves
pub mod Effects
pub mod Outcomes
pub mod Wiring
pub mod Picks
pub mod Deltas
pub mod Laws
pub mod Lists
