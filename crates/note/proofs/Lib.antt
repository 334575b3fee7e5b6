pub mod Noting
pub mod Replacing
