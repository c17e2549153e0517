pub mod Closing
pub mod Opened
