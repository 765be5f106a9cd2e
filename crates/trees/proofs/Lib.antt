pub mod NodeTypes
pub mod Operands
pub mod TreeLaws
pub mod TypeEntries
pub mod TypeForms
