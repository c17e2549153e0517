pub mod Rows
pub mod PinRows
pub mod Laws
pub mod Stays
pub mod Contents
pub mod Walks
pub mod Stored
pub mod Settling
