pub mod Entries
pub mod Filling
pub mod Finding
pub mod Readings
pub mod Promised
pub mod Answered
