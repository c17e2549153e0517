pub mod Refused
pub mod PlaceInfos
pub mod FileRefused
pub mod Answered
pub mod Claimed
pub mod StageRefused
pub mod Reported
mod AdminRefused
mod TapeRefused
mod RepackTold
pub mod Orders
pub mod OwnMounts
pub mod Plays
