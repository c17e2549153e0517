pub mod Items
pub mod Waiting
pub mod Reading
