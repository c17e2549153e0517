pub mod Done
pub mod Found
pub mod Evicted
pub mod Told
