pub mod Crc
pub mod Answer
pub mod Claims
