pub mod Causes
pub mod Computes
pub mod Worked
