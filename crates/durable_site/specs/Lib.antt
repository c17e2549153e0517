pub mod Ending
pub mod Top
