mod FirstWrong
mod Puts
mod Last
mod Refused
mod PlainBytes
mod Bares
mod Grown
mod Made
pub mod Followed
mod Taken
mod MediaFor
mod Labelled
mod HandsIn
mod Mounted
