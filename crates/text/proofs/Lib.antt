pub mod Lines
pub mod Tables
pub mod Places
pub mod Building
pub mod Patterns
