pub mod Zeros
pub mod Reading
pub mod Writing
pub mod Returns
pub mod Computes
pub mod Blocks
