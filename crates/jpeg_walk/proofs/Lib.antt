pub mod Ahead
pub mod Laws
