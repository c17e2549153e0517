pub mod Now
pub mod Reached
pub mod Begins
pub mod Moves
pub mod Mounted
pub mod Claimed
pub mod Batched
pub mod Reported
mod Requested
mod ToRead
pub mod Recalled
mod NamedTwice
mod KnownJobs
mod FailedTold
mod TapesTold
mod Shares
pub mod ItemJobs
