pub mod Form
pub mod Offset
pub mod Group
pub mod Room
pub mod Held
pub mod Text
pub mod Cases
pub mod Claims
