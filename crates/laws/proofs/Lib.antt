pub mod Says
pub mod Cases
pub mod Asked
