pub mod FieldForms
pub mod FieldLaws
pub mod NodeFields
pub mod Spans
pub mod StatementFields
