pub mod Stripe
pub mod Kept
