pub mod Levels
pub mod Calls
pub mod FromFresh
pub mod Written
pub mod Alike
pub mod Claims
