pub mod Text
pub mod Buffers
