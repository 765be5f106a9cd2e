pub mod Changes
pub mod Header
pub mod Numbers
pub mod ReadBack
pub mod Rows
pub mod ValueLaws
pub mod WalkLaws
pub mod Words
