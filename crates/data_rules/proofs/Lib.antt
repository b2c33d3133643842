pub mod Layer
pub mod Cases
pub mod Exactly
pub mod Handed
pub mod Own
