pub mod BlockForms
pub mod Entries
pub mod Lookup
pub mod Places
pub mod RecordLaws
pub mod Sections
pub mod Starts
