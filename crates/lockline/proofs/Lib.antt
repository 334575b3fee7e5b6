pub mod Pouring
