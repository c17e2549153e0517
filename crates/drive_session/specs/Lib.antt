pub mod Answers
pub mod Lawful
pub mod Records
pub mod Fits
pub mod Table
pub mod Steps
pub mod Works
pub mod Examples
