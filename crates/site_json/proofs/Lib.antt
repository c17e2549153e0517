pub mod Lists
pub mod Tested
pub mod Whole
pub mod Kept
pub mod Parts
pub mod Joined
pub mod Meets
