pub mod Words
pub mod Commands
pub mod Found
pub mod Numbers
pub mod Serving
pub mod Durable
