pub mod Ages
pub mod Owner
pub mod Map
pub mod Sound
pub mod Valid
pub mod Bytes
