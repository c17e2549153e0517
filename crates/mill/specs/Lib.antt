pub mod Milled
pub mod Top
