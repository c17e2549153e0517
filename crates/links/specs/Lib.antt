pub mod Standing
pub mod Run
pub mod Laws
