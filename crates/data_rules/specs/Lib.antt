pub mod Sentences
pub mod Own
pub mod Data
