pub mod Places
pub mod Apart
pub mod Facts
pub mod Tally
pub mod Walk
