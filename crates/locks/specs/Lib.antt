pub mod Conflicts
pub mod Settle
pub mod Refusals
pub mod Serve
pub mod Events
pub mod Session
pub mod List
