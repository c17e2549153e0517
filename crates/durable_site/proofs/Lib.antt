mod Sent
mod Statuses
mod NewDrives
