pub mod Stacks
pub mod GroupLaws
pub mod Operands
pub mod PhraseLaws
