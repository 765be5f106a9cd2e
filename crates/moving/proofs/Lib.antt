pub mod ListMoves
pub mod MoveLaws
pub mod Numbers
pub mod OrderTwo
