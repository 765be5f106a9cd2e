pub mod PrintLaws
pub mod TextLaws
