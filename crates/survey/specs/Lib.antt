pub mod Survey
pub mod Claims
