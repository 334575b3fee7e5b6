pub mod Raising
pub mod Untouched
