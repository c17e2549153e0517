pub mod Lists
pub mod Parts
pub mod Handling
pub mod Sessions
pub mod Asking
pub mod Whole
