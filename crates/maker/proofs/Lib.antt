pub mod Turns
pub mod Sheets
pub mod Filling
pub mod Laying
pub mod Making
