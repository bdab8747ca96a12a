pub mod Block
pub mod Answer
pub mod Cases
pub mod Claims
