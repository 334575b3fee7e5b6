pub mod Piece
pub mod Refusals
pub mod Stripe
