pub mod Searches
pub mod Flags
pub mod Steps
