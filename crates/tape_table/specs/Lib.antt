pub mod Counts
pub mod Indexed
pub mod Rows
pub mod Live
pub mod Sources
