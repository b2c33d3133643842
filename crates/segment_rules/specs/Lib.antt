pub mod Rules
pub mod Segment
