pub mod Sentences
pub mod Band
