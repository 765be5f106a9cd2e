pub mod Bits
pub mod NumeralLaws
pub mod PutLaws
pub mod Reading
