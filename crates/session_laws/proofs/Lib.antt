pub mod Stays
pub mod Fit
pub mod Answered
pub mod Sources
pub mod Claimed
pub mod Behind
pub mod Goes
pub mod Bares
