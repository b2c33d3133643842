pub mod Laws
pub mod Refused
pub mod Values
pub mod Faults
pub mod Tables
pub mod Parts
pub mod Named
