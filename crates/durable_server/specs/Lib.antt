pub mod Drives
pub mod Fronts
pub mod Serving
