pub mod Stripes
pub mod Page
