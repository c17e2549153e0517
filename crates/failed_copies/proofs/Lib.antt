pub mod OfFile
pub mod Told
