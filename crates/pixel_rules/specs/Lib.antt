pub mod Place
pub mod Planes
pub mod Samples
pub mod Decide
pub mod Content
pub mod Down
