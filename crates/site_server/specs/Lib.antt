pub mod Serving
pub mod Top
