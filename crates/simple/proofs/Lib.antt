pub mod SignalLaws
pub mod WaitLaws
pub mod AssignLaws
