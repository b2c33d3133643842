pub mod Coats
pub mod Laws
