pub mod Grammar
pub mod Reading
pub mod Faults
