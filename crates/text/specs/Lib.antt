pub mod Slices
pub mod Lines
pub mod Numbers
pub mod Quoted
pub mod Tables
pub mod Printable
pub mod Written
