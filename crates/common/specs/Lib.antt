pub mod Tests
pub mod Refusals
pub mod Ranges
pub mod Counters
pub mod Cleared
