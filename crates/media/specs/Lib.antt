pub mod Counted
pub mod Drives
pub mod Records
pub mod Reads
pub mod Memory
pub mod Made
