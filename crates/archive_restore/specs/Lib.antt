pub mod Logs
pub mod Contents
pub mod Labels
pub mod Asked
pub mod Same
pub mod Restored
