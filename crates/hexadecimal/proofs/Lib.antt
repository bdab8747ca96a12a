pub mod Opened
pub mod Steps
pub mod TextsWorked
