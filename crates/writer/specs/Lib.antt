pub mod Entries
pub mod Inside
