pub mod Putting
pub mod Sorting
pub mod Searching
pub mod Inserting
