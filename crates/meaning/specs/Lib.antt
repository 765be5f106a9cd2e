pub mod Machine
pub mod Text
