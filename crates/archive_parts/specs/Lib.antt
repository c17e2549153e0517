pub mod PartsKept
pub mod Same
pub mod Rooms
pub mod Called
pub mod Laws
pub mod Carrying
