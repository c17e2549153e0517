pub mod Claims
pub mod Live
pub mod Maps
