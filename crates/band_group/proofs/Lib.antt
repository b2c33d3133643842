pub mod Lines
pub mod Rows
