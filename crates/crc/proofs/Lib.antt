pub mod Answered
pub mod Words
pub mod Turns
pub mod Tabulated
pub mod Mirror
