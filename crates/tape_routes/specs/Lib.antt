pub mod Routes
pub mod Router
pub mod Parameters
pub mod Fixed
pub mod Asked
pub mod Callers
pub mod Replies
pub mod Answering
