pub mod Fronting
pub mod Stepping
