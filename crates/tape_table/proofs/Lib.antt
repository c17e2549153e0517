pub mod Added
pub mod Looks
pub mod Told
pub mod Trees
pub mod Walks
