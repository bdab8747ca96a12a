pub mod Characters
pub mod CommandNamed
pub mod Digits
pub mod Equal
pub mod Named
pub mod OptionNamed
pub mod WordsWorked
