pub mod Places
pub mod Begin
pub mod Exactly
pub mod Named
pub mod Refusals
