pub mod Newest
pub mod Appends
pub mod Runs
