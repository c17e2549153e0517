pub mod Records
pub mod Journaled
pub mod Turns
pub mod Runs
pub mod Last
pub mod Opened
