mod Firsts
mod ToldAsks
mod ToldAnswers
mod ToldRecords
mod Fronts
mod Alone
