pub mod Unmet
pub mod Sealed
pub mod Once
pub mod Computes
pub mod Worked
pub mod Conditions
pub mod SheetsApart
pub mod Sheets
