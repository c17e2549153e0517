pub mod Each
pub mod ToldNumbers
pub mod ToldLists
pub mod ToldChoices
pub mod ToldValues
pub mod ToldReports
