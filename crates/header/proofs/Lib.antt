pub mod Computes
pub mod Headers
