pub mod Lists
pub mod Posts
