mod Fronting
mod Calling
mod Linked
