pub mod Geometry
pub mod Bytes
pub mod Store
pub mod Refusal
pub mod Claims
pub mod Numbers
