pub mod Copying
pub mod Merging
pub mod Halves
pub mod Parts
