pub mod Tests
pub mod Asking
pub mod Widths
