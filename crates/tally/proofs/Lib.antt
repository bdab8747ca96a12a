pub mod Modes
pub mod Counts
