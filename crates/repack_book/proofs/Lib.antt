pub mod Trees
pub mod Copies
pub mod Rows
pub mod Told
pub mod Books
pub mod Walks
