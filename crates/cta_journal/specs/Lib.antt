pub mod Damage
pub mod Disk
pub mod Fronts
pub mod Log
pub mod Records
pub mod Standing
