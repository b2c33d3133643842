pub mod Reports
pub mod Firm
pub mod Judging
pub mod Reading
pub mod Writing
pub mod Lining
pub mod Banding
pub mod Handing
