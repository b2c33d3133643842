pub mod Record
pub mod Judge
pub mod Sentences
pub mod StripeTable
