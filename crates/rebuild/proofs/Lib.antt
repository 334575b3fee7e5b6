pub mod Taking
pub mod Owning
