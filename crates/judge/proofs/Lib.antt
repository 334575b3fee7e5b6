pub mod Alone
pub mod Finding
