pub mod Changed
pub mod Texts
pub mod Told
pub mod Laws
