pub mod Sentences
pub mod Demand
pub mod Line
pub mod BaseLine
