pub mod Fours
pub mod Laws
