pub mod Values
pub mod Digits
pub mod Heads
pub mod Commas
pub mod Queries
pub mod Codes
