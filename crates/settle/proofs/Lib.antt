pub mod Written
pub mod Granting
pub mod Turning
pub mod Waiting
pub mod Revoking
pub mod Sweep
pub mod Settling
