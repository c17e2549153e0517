pub mod Listed
pub mod ByName
