pub mod PinLists
pub mod Found
pub mod Changed
pub mod Walked
pub mod Held
pub mod Settled
