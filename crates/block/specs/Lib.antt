pub mod Answer
pub mod Claims
pub mod Inside
