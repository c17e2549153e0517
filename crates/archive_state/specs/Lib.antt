pub use Rattle.part_laws.specs.Shelf
pub mod States
pub mod Contents
pub mod Keys
pub mod Requests
pub mod Shared
pub mod ClaimedJobs
