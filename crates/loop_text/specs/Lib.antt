pub mod LoopText
