pub mod Before
pub mod Moving
