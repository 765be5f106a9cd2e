pub mod DeltaProcesses
pub mod DeltaSignals
pub mod Resolving
pub mod Shifts
