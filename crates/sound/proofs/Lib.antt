pub mod Left
pub mod Counts
pub mod Handles
pub mod Friends
pub mod Rows
pub mod Whole
pub mod Numbers
pub mod Fields
