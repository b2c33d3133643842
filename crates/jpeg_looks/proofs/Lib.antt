pub mod Look
pub mod Leaves
pub mod Hangs
pub mod Theorems
pub mod Examples
