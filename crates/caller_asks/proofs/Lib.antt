mod PutBirths
mod Lines
mod Ends
pub mod Leaves
mod Requests
mod Items
mod Writers
mod Puts
mod PutCalls
mod Stands
mod Waits
mod Deletes
mod DeleteCalls
mod Told
mod PutBody
mod DeleteBody
mod PutDone
mod FileLists
pub mod RequestLoops
mod PinLoops
mod RecallLoops
pub mod Standing
mod ReleaseCalls
mod CancelledFiles
mod CancelCalls
mod DropCalls
pub mod BirthLoops
mod WantedLists
mod Sources
mod NewRecalls
mod StagedFiles
mod NewPins
mod StageCalls
mod StageFacts
