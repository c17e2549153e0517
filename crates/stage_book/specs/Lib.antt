pub mod Requested
pub mod FileRows
pub mod Places
pub mod Reports
