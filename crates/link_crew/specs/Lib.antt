pub mod Accounts
pub mod Seats
