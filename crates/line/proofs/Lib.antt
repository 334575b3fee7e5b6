pub mod Steps
pub mod Letters
pub mod Single
