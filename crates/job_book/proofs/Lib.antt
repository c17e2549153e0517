pub mod Looks
pub mod Changes
pub mod Steps
pub mod ClaimedJobs
pub mod Counts
