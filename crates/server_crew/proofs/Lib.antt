pub mod Drives
mod Added
mod Doors
