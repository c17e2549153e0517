pub mod Asks
pub mod Answers
pub mod Records
pub mod Reads
pub mod Laws
