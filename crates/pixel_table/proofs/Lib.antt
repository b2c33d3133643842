pub mod Pixels
pub mod Bands
