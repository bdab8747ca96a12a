pub mod Xor
pub mod Eight
pub mod Answers
pub mod Worked
