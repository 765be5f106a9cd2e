pub mod Pending
pub mod Waveform
