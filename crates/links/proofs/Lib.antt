pub mod Elements
pub mod Runs
pub mod Standing
pub mod RunLaws
pub mod Beginning
