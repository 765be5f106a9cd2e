pub mod Drivers
pub mod Held
pub mod Schedules
