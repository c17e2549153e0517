mod Turns
mod Leaves
mod Lines
mod Answered
mod Spelled
mod Served
mod Journaled
