pub mod Ending
pub mod Behind
pub mod Asking
pub mod Naming
