pub mod Cuts
pub mod Stepping
pub mod Tables
pub mod Sorts
pub mod Computes
pub mod Worked
