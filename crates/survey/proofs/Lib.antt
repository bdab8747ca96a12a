pub mod Stepping
pub mod Leaves
pub mod Named
