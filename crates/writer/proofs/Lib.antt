pub mod Left
pub mod Counting
pub mod Openings
pub mod Loops
pub mod Sheets
pub mod Checksums
pub mod Images
pub mod Numbers
