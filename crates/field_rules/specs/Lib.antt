pub mod Field
pub mod Stands
pub mod Part
pub mod Fault
