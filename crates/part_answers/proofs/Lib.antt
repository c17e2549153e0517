pub mod Orders
pub mod Firsts
mod Keys
pub mod Walks
pub mod ItemsOf
mod ReadItems
mod SourceFseqs
pub mod Placed
