pub mod Computes
pub mod Names
pub mod Bits
pub mod Accepted
