pub mod RelationLaws
pub mod SetsMade
