pub mod Paths
pub mod Puts
pub mod Stages
pub mod Counts
pub mod Reports
pub mod Tallies
pub mod Marks
pub mod Found
