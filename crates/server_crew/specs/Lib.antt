pub mod Jobs
pub mod Musters
