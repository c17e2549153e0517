pub mod Doors
pub mod Counts
pub mod Accounts
