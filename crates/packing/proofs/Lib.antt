pub mod BlockLaws
pub mod PageLaws
