pub mod Numbered
pub mod FirstMedia
pub mod Sites
mod Benches
