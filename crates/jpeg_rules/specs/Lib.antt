pub mod Codes
pub mod Marker
pub mod Said
pub mod Grammar
pub mod Walk
pub mod Faults
