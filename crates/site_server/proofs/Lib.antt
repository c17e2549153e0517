mod Drives
mod Sessions
