pub mod Laws
pub mod Waiting
pub mod Fitting
