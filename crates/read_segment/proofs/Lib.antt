pub mod Segments
pub mod Views
