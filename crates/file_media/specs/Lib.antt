pub mod Names
pub mod Disks
pub mod Calls
pub mod Views
pub mod Benches
pub mod Earlier
pub mod Locks
