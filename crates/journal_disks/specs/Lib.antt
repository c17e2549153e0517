pub mod Events
pub mod Folders
pub mod Machine
pub mod Memory
pub mod Past
