pub mod Leads
pub mod Relation
