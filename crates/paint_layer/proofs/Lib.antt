pub mod Laws
pub mod Parts
pub mod Both
