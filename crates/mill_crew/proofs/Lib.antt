pub mod Listing
pub mod Totals
mod Frees
