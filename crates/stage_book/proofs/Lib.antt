pub mod Lists
pub mod Paths
pub mod Turns
pub mod Places
pub mod Requests
pub mod Told
