pub mod Numbers
pub mod Dots
pub mod Writes
pub mod Untold
pub mod Noted
