pub mod OpenedMounts
pub mod EndedMounts
mod GivenBatches
pub mod BatchFacts
mod ItemLoops
mod TurnedDrives
pub mod Told
pub mod Tables
pub mod Books
pub mod Lawful
pub mod Called
mod WaitLists
pub mod ReadFacts
mod GivenReads
mod RecallFacts
mod StaleReads
mod MarkedItems
mod CompletedFiles
mod BornCopies
mod ArrivalPins
mod ReadCopies
mod ToldPins
mod DoneReads
mod DoneFacts
