pub mod Stripe
pub mod Segments
pub mod Loop
