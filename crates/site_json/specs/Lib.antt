pub mod Members
pub mod Words
pub mod Elements
pub mod File
pub mod Tested
