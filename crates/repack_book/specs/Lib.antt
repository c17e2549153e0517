pub mod NamedRepacks
pub mod Walks
pub mod Reports
pub mod States
pub mod Order
pub mod Live
pub mod Laws
