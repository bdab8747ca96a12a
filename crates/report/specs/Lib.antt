pub mod Sizes
pub mod Words
pub mod Blocks
pub mod Layouts
