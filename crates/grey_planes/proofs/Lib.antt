pub mod Sheets
pub mod Layer
pub mod Alike
pub mod Lines
pub mod Planes
pub mod Line
pub mod Unread
