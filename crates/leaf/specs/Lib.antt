pub mod Leaf
pub mod Tally
pub mod Cases
pub mod Claims
