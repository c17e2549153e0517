mod Closers
mod Mounted
mod Asked
mod TakenUp
