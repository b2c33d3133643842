pub mod Layers
pub mod Laws
pub mod Ends
