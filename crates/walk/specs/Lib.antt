pub mod Walk
pub mod Cases
pub mod FixedCases
pub mod Claims
