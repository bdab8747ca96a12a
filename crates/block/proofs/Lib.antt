pub mod Computes
pub mod Judged
pub mod Phy
pub mod Advertised
pub mod Whole
pub mod Seen
pub mod Versions
pub mod Own
