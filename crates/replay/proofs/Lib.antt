pub mod Forms
pub mod Numbers
pub mod Parts
pub mod Drives
pub mod RequestReplies
pub mod Taking
pub mod Writing
pub mod Delivering
pub mod Ending
pub mod Behind
pub mod Benches
pub mod Lines
pub mod Running
pub mod Histories
pub mod Starting
pub mod Texts
pub mod SaidLines
pub mod Readings
pub mod OneReading
pub mod OneOutput
pub mod Completing
pub mod Asked
pub mod Turned
pub mod Manned
mod Stepping
mod Replied
mod StepWritten
pub mod Whole
mod OneMount
mod TrueMedia
mod Returned
mod FreeRows
mod ReadLines
mod Freed
mod Promised
pub mod Rightly
mod KeptPromises
mod Plain
