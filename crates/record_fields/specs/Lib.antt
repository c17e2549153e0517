pub mod Fields
pub mod Numbers
pub mod Texts
pub mod Lists
pub mod Values
pub mod Choices
pub mod Reports
