pub mod Lines
mod Fits
pub mod Told
