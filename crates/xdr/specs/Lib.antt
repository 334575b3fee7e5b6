pub mod Be
pub mod Layout
pub mod Tab
pub mod Array
