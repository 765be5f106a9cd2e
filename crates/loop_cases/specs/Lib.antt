pub mod LoopCases
