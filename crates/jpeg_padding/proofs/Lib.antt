pub mod Before
pub mod Counts
pub mod Pads
pub mod Reached
pub mod Walked
pub mod Theorems
pub mod Examples
