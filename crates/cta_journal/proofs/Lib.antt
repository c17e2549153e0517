pub mod Moments
pub mod Records
pub mod Crash
pub mod Repair
pub mod Pieces
pub mod Runs
pub mod Damages
