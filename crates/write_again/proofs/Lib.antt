pub mod Mode1
pub mod Modes
pub mod Lent
pub mod Trips
pub mod Again
pub mod Theorems
pub mod Examples
