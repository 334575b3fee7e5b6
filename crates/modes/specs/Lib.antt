pub mod Codes
pub mod Conflict
