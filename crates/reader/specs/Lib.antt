pub mod Table
pub mod Reading
pub mod Claims
pub mod Inside
pub mod Answered
