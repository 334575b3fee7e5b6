pub mod Session
pub mod Buffers
pub mod Run
pub mod Examples
