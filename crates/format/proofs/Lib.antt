pub mod Lists
pub mod Rows
pub mod Chips
pub mod Exact
pub mod Levels
pub mod Computes
pub mod Worked
