pub mod Books
pub mod FailedLists
pub mod BackLists
pub mod Claimed
pub mod FailFacts
pub mod EndedJobs
pub mod AddedLines
pub mod WrittenCalls
pub mod WriteFacts
pub mod EndedItems
pub mod NextSources
pub mod ChargeTexts
pub mod EndedFiles
pub mod EndedRepacks
pub mod ReadFacts
pub mod RecallLists
pub mod ReadCalls
pub mod FailedWalks
mod NamedJobs
mod JobLoops
pub mod RetryFacts
mod RetryCalls
