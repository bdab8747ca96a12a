pub mod Chips
pub mod Block
pub mod Cases
pub mod Claims
