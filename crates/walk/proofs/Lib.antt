pub mod Loads
pub mod Looks
pub mod Ways
pub mod Fixed
pub mod Refusals
pub mod Computes
pub mod Worked
pub mod Taken
