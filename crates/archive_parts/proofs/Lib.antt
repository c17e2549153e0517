pub mod Names
pub mod Moves
pub mod Begins
pub mod Behind
