pub mod First
pub mod Seen
pub mod Taken
pub mod Sources
pub mod Copies
