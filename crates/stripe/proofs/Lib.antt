pub mod Accepted
pub mod Outcome
pub mod Carried
pub mod Stored
pub mod ByRun
pub mod Stretch
pub mod Placing
