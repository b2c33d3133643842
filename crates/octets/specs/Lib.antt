pub mod Octets
pub mod Entries
