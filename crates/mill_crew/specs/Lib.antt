pub mod Contents
pub mod Posts
