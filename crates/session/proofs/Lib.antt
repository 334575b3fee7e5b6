pub mod Joining
pub mod Serving
pub mod Feeding
pub mod Only
pub mod Onward
pub mod Whole
