pub mod Frozen
pub mod Places
