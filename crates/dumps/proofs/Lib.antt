pub mod DumpLaws
pub mod Kept
pub mod PrintLaws
pub mod RunLaws
pub mod TraceLaws
