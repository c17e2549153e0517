pub mod Jobs
pub mod Gone
pub mod Recalls
pub mod Wanted
pub mod Sorted
