pub mod Word
pub mod Options
pub mod Commands
pub mod Roles
pub mod Value
pub mod Status
pub mod Cases
pub mod Claims
