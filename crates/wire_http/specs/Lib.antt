pub mod Fields
pub mod Options
pub mod Callers
pub mod Rules
pub mod Head
pub mod Reply
pub mod Errors
