pub mod Banding
