pub mod Image
pub mod Arguments
pub mod Cases
pub mod Claims
