pub mod Bodies
pub mod Reports
pub mod Shown
