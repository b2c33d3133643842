pub mod Sheets
pub mod Theorems
