pub mod Table
pub mod Sound
pub mod Bytes
pub mod Places
