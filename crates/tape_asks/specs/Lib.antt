pub mod Items
pub mod Losses
pub mod Takings
pub mod Lists
pub mod RepackTakings
pub mod Settled
