pub mod Unpinned
pub mod Flags
pub mod Waiting
pub mod Pinned
pub mod Texts
