pub mod Layer
pub mod Cut
pub mod Mode1
pub mod Modes
pub mod Sentences
pub mod Form
pub mod Writing
