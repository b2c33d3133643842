pub mod Rules
pub mod Start
pub mod Faults
pub mod Exactly
pub mod Named
pub mod Refusals
