pub mod Tokens
pub mod Words
pub mod Grammar
pub mod Made
