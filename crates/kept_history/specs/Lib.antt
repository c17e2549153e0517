pub mod Weight
pub mod Puts
pub mod Births
