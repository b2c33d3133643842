pub mod Laws
pub mod Entries
pub mod Agree
pub mod Turns
pub mod Runs
