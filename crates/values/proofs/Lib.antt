pub mod Tables
pub mod Resolution
pub mod Operators
pub mod Formulas
