pub mod Cases
pub mod Sheets
pub mod Claims
