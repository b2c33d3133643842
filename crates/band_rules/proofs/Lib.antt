pub mod Octets
pub mod Ruled
pub mod Exactly
pub mod Refused
pub mod Bands
pub mod Sizes
