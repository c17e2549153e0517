pub mod Seen
pub mod Made
pub mod SiteFile
pub mod SiteReading
