pub mod Drivers
pub mod Entries
pub mod Facts
pub mod Own
pub mod RuleForms
pub mod Rules
pub mod StatementFacts
